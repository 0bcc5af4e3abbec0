-- The laws of `distinct`.
pub mod Words
pub mod Codes
pub mod Operands
pub mod Programs
pub mod Examples
