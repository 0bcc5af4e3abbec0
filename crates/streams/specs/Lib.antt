-- The definitions of `streams`.
pub mod Told
pub mod Stands
