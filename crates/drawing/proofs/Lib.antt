pub mod Storing
pub mod Planning
