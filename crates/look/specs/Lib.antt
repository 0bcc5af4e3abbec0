-- The definitions of `look`.
pub mod Look
pub mod Wrong
