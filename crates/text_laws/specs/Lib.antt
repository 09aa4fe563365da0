pub mod Numbered
pub mod Named
