-- The laws of `admission`.
pub mod Tests
pub mod Fits
