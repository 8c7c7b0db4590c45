pub mod Asking
pub mod Numbers
pub mod Items
