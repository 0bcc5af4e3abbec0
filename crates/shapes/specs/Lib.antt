-- The definitions of `shapes`.
pub mod Shapes
