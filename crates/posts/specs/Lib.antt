pub mod Posts
pub mod Pushing
pub mod Posting
pub mod Words
pub mod Refusing
