pub mod Calling
pub mod Places
