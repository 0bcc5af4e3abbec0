-- The laws of `reader`.
pub mod Turns
