pub mod Plan
pub mod Charted
pub mod Limits
