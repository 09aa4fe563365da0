pub mod Keys
pub mod Clashes
