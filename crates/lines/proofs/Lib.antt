-- The laws of `lines`.
pub mod Written
