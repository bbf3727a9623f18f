pub mod Bits
pub mod Members
