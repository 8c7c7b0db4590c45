pub mod Marking
pub mod Coded
pub mod Standing
