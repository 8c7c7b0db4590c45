pub mod Plans
pub mod NoPlans
pub mod Code
pub mod Stands
