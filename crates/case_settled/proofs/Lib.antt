pub mod Searches
pub mod Settlement
pub mod Values
pub mod Spare
