pub mod Lists
pub mod Order
pub mod Answers
pub mod Terms
pub mod Bridge
pub mod Chains
