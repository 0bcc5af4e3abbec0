-- The definitions of `flow`.
pub mod Branch
