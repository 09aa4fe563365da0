pub mod WriteLaws
pub mod Endings
