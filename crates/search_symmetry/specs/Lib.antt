pub mod Symmetry
pub mod Steps
