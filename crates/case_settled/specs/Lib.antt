pub mod Settled
pub mod Searches
