-- The definitions of `decoder`.
pub mod Decode
pub mod Refusals
