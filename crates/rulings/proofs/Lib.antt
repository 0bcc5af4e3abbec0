-- The laws of `rulings`.
pub mod Entries
pub mod Numbers
pub mod Answers
pub mod Prefix
