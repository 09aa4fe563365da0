pub mod Means
pub mod Bytes
