pub mod Identifiers
pub mod Profile
pub mod Readings
