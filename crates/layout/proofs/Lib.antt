pub mod Fitting
pub mod Keeping
pub mod Laid
pub mod Meeting
