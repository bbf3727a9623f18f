pub mod Flow
pub mod Passing
pub mod Pass
pub mod Laws
pub mod Walk
pub mod Underway
pub mod Truths
pub mod Working
