pub mod LineOf
pub mod ParseLaws
pub mod Endings
