pub mod Map
pub mod Ways
pub mod Laws
