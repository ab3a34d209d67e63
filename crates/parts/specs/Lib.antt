pub mod Bounds
pub mod Bytewise
pub mod Keys
pub mod Details
pub mod Equality
