pub mod Packing
pub mod Given
pub mod Writer
pub mod Taken
pub mod Contract
pub mod Held
pub mod Sounded
