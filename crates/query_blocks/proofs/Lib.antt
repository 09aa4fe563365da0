pub mod Accepted
pub mod Shape
pub mod Words
pub mod Parts
