pub mod Tableau
