-- The laws of `decoder`.
pub mod Refuses
pub mod Numbers
pub mod Lengths
mod Heads
