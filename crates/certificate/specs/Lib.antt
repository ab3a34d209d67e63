pub mod Checks
pub mod Profile
pub mod Readings
pub mod Bottoms
