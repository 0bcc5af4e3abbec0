-- The laws of `text`.
pub mod Puts
