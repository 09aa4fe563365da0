pub mod Links
pub mod Words
pub mod Under
pub mod Merges
pub mod Rows
