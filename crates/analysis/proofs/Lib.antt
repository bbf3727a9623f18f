pub mod Room
pub mod Starting
pub mod Finishing
pub mod Answering
