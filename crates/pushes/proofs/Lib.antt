-- The laws of `pushes`.
pub mod Pushed
pub mod Values
