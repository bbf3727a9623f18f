pub mod Spending
pub mod Classed
pub mod Charging
