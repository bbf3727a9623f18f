pub mod Truth
pub mod Counting
pub mod Uncounted
pub mod Noting
pub mod Keeping
