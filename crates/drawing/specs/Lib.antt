pub mod Columns
pub mod Nodes
pub mod Drawing
