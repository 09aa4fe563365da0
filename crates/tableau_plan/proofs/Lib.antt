pub mod Laws
pub mod Blocks
pub mod Rows
pub mod Taken
pub mod Tableau
pub mod Copies
pub mod Whole
