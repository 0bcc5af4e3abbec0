-- The laws of `names`.
pub mod Named
