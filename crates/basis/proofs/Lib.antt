-- The laws of `basis`.
pub mod Tests
pub mod Tables
pub mod Numbers
pub mod Stores
pub mod Refusals
