pub mod Checker
pub mod Inner
