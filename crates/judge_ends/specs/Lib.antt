pub mod Answers
pub mod Sets
pub mod Places
pub mod Returns
