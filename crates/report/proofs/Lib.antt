pub mod Putting
pub mod Digits
pub mod Parts
pub mod Zeros
pub mod Inputs
pub mod Refusing
