-- The definitions of `names`.
pub mod Names
pub mod Rows
