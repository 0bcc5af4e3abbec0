-- The definitions of `isa`.
pub mod Op
pub mod Shape
