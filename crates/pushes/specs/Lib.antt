-- The definitions of `pushes`.
pub mod Values
