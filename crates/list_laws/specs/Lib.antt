pub mod Wrote
pub mod Kept
pub mod Order
