-- The definitions of `guarantee`.
pub mod Demands
pub mod Marked
pub mod Copies
pub mod Shapes
pub mod Tags
pub mod Downloads
