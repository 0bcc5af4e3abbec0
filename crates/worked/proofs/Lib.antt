-- The laws of `worked`.
pub mod Again
pub mod Worked
