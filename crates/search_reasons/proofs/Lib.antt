pub mod Laws
pub mod Ways
