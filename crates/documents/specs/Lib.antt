pub mod Kinds
pub mod Maps
pub mod Views
pub mod Laws
