-- The laws of `pack`.
pub mod Walks
pub mod Sounds
pub mod Tags
pub mod Keeps
