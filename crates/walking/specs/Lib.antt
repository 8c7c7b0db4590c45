pub mod Walks
pub mod General
pub mod Promise
pub mod Trees
pub mod SmallMaps
pub mod Cases
pub mod Noting
