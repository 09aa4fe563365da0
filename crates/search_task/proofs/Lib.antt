pub mod Padded
pub mod Node
pub mod Heads
pub mod Columns
pub mod ReadyLaws
pub mod Copies
pub mod NodeLaws
