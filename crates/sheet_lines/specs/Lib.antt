pub mod Part
pub mod Start
