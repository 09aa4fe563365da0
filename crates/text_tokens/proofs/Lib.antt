pub mod Tokens
pub mod Names
