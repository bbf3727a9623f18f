pub mod Plain
pub mod Ages
pub mod Bounds
pub mod Published
pub mod Laws
