-- The definitions of `pending`.
pub mod Sets
