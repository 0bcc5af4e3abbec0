-- The laws of `settling`.
pub mod Settles
