pub mod Signs
pub mod Within
pub mod Sums
pub mod Asked
pub mod Bounding
pub mod Marks
pub mod Whole
