pub mod Deciding
pub mod Testing
pub mod Used
pub mod Answers
pub mod Answering
pub mod Tabled
