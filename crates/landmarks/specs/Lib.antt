pub mod Landmarks
pub mod Laws
pub mod Numbers
pub mod Lands
