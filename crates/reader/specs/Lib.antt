-- The definitions of `reader`.
pub mod Turn
