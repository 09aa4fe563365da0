pub mod Answers
pub mod Page
pub mod Totals
pub mod Refusal
pub mod Returns
