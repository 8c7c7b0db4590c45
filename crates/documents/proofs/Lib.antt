pub mod Charts
pub mod ChartsRead
pub mod MapLaws
