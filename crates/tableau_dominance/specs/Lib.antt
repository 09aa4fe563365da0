pub mod Dominated
