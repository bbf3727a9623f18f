pub mod Laid
pub mod Fitting
pub mod Meeting
pub mod Used
pub mod Agreeing
pub mod After
