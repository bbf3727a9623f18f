pub mod Rows
pub mod Joins
pub mod Kinds
