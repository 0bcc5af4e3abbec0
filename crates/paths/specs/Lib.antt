-- The definitions of `paths`.
pub mod Paths
pub mod Walk
