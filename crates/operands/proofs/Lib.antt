-- The laws of `operands`.
pub mod Shown
