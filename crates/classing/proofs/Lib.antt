pub mod Reading
pub mod Wanted
pub mod Refined
