pub mod Reading
pub mod Telling
pub mod Writing
pub mod Roads
pub mod Words
