pub mod Stepping
pub mod Ageing
pub mod Settled
pub mod Charting
