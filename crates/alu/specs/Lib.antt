-- The definitions of `alu`.
pub mod Values
