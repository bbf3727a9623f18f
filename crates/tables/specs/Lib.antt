pub mod Lent
pub mod Inner
pub mod Contract
pub mod Fitting
pub mod AsTable
