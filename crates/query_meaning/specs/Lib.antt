pub mod Meaning
pub mod Blocks
pub mod Facts
pub mod Evaluate
