pub mod Machine
pub mod Keeping
pub mod Noted
