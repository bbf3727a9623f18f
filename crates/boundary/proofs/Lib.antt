pub mod Answers
pub mod Sounded
