-- The statements of `sizes`.
pub mod Sizes
