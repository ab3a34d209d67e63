pub mod KindLaw
pub mod Whole
pub mod Bottoms
