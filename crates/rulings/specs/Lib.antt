-- The definitions of `rulings`.
pub mod Rulings
