pub mod Claimed
pub mod Answering
pub mod Fitting
