-- The definitions of `layout`.
pub mod Layout
