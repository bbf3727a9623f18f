pub mod Summing
pub mod Charged
pub mod Answering
pub mod Totalled
