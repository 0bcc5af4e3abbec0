-- The laws of `halving`.
pub mod Spans
pub mod Steps
pub mod Finds
pub mod Ways
