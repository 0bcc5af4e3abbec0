-- The definitions of `effects`.
pub mod Memory
pub mod Effect
pub mod Act
pub mod Reach
