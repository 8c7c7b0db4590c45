pub mod Finding
pub mod LineByLine
pub mod Rising
pub mod Turns
