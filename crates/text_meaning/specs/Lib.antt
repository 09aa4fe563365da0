pub mod Control
pub mod Tokens
pub mod Names
pub mod Places
pub mod Reading
pub mod Numbers
