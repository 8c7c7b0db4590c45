pub mod Closer
pub mod Closest
pub mod Least
pub mod Near
pub mod Numbered
