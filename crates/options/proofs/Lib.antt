pub mod Standing
pub mod Large
