pub mod Listed
pub mod AsPlan
