pub mod Readers
pub mod Leaves
pub mod Syntax
pub mod Kinds
