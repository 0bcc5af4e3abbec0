-- The definitions of `lines`.
pub mod Line
