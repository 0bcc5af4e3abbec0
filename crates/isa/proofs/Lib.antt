-- The laws of `isa`.
pub mod Codes
pub mod Numbers
