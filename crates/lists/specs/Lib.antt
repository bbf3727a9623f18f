pub mod Choice
pub mod Lists
pub mod Loops
pub mod Slices
pub mod Telling
pub mod Soundings
pub mod Answers
