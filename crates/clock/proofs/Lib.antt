pub mod Times
pub mod Order
pub mod Rounded
pub mod Fitting
pub mod Rising
pub mod Exact
pub mod Sounded
