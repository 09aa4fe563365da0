pub mod Steps
pub mod Turns
pub mod Tries
pub mod Onward
pub mod Heads
