-- The definitions of `machine`.
pub mod Machine
pub mod Run
pub mod Trace
pub mod Refusals
