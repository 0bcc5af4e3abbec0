-- The laws of `arrival`.
pub mod Bytes
pub mod Runs
