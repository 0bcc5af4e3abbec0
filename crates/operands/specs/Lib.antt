-- The definitions of `operands`.
pub mod Operands
