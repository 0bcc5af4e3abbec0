-- The definitions of `rules`.
pub mod Rules
pub mod Refusals
pub mod Sample
