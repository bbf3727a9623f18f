pub mod Deadline
pub mod Widths
