pub mod Words
pub mod Owed
pub mod Cases
pub mod Over
