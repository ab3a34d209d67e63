pub mod Layout
pub mod Format
pub mod Checks
pub mod WellFormed
pub mod Meaning
