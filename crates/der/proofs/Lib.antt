pub mod Parts
pub mod Digits
pub mod Steps
pub mod Lengths
pub mod Laws
pub mod Rules
