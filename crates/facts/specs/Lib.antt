pub mod Parts
pub mod Facts
pub mod Certificate
pub mod Slices
pub mod Listed
pub mod Given
pub mod Inner
pub mod Whole
