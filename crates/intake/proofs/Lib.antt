-- The laws of `intake`.
pub mod Chunks
