pub mod Taken
pub mod Runs
