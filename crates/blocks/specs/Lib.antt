pub mod Blocks
pub mod Listing
pub mod Exactly
