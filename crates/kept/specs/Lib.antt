pub mod Since
pub mod Kept
pub mod Younger
pub mod Walked
pub mod Checked
