pub mod Minimization
pub mod Parts
