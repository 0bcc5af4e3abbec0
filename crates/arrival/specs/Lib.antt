-- The definitions of `arrival`.
pub mod Plain
