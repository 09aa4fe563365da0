pub mod Rules
pub mod Numbers
pub mod Lines
pub mod Reading
pub mod Sound
pub mod Loads
