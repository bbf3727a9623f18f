pub mod Fields
pub mod Sounded
