pub mod Refusals
pub mod Numbers
pub mod Elements
pub mod Cursors
pub mod Encoding
pub mod Contents
pub mod Times
