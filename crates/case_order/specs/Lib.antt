pub mod Order
pub mod Parts
