-- The laws of `copies`.
pub mod Copies
