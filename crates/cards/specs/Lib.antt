pub mod Cards
pub mod Words
