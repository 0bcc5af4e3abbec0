-- The definitions of `safety`.
pub mod Sealed
