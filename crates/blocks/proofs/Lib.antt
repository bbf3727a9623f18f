pub mod Search
pub mod Halving
pub mod Insertion
pub mod Placed
pub mod Shift
pub mod Copied
pub mod Arrays
pub mod Exact
