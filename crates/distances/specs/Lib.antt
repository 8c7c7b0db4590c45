pub mod Keys
pub mod Rows
pub mod Orders
pub mod Steps
pub mod Surveys
pub mod Unreached
