pub mod Tables
pub mod Loads
pub mod Numbers
