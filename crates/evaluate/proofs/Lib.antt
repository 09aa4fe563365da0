pub mod Laws
pub mod Values
pub mod Calls
pub mod Once
pub mod ByTable
