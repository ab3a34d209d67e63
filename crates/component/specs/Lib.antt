pub mod Registries
pub mod Syntax
pub mod Readings
pub mod Meaning
