pub mod Facts
pub mod Written
