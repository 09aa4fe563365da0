pub mod Laws
pub mod Symmetry
pub mod Turned
pub mod Exchange
pub mod Words
