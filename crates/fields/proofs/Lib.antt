pub mod Answered
pub mod Sounded
