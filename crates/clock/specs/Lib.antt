pub mod Clock
pub mod Laws
pub mod Sounded
