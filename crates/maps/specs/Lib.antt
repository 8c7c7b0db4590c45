pub mod Faults
pub mod Roads
pub mod Arcs
pub mod Charts
pub mod Laying
pub mod Laid
pub mod Sought
