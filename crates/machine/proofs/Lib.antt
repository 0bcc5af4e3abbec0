-- The laws of `machine`.
pub mod Runs
pub mod Loop
pub mod Answers
