pub mod Choosing
pub mod Laws
pub mod Tables
pub mod Turns
pub mod Chosen
