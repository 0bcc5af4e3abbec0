-- The laws of `effects`.
pub mod Opens
pub mod Keeps
pub mod Frame
pub mod Agrees
pub mod Faults
