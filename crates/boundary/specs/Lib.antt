pub mod Told
pub mod Timed
pub mod Certifying
pub mod Sounded
