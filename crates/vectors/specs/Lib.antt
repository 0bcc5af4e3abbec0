-- The definitions of `vectors`.
pub mod Said
