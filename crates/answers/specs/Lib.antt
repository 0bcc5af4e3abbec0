-- The definitions of `answers`.
pub mod Written
pub mod Instructions
pub mod Runs
pub mod Verdicts
pub mod Packs
pub mod Admissions
