pub mod Bound
pub mod Inner
pub mod Given
