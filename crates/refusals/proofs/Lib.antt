pub mod Numbers
pub mod Saying
