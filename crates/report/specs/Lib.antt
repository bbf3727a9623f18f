pub mod Text
pub mod Report
pub mod Ending
pub mod Written
