pub mod Lists
pub mod Words
pub mod Laws
pub mod Ranges
pub mod Order
