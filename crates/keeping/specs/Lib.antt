pub mod Words
pub mod Columns
pub mod Work
pub mod Flood
pub mod Starting
pub mod Telling
pub mod Choosing
pub mod Told
