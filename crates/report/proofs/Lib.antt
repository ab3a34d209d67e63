pub mod Steps
pub mod Sound
pub mod Complete
pub mod Whole
pub mod Entries
