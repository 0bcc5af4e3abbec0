-- The definitions of `intake`.
pub mod Idle
