pub mod Analysis
pub mod Inner
