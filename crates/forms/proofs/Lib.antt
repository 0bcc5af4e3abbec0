-- The laws of `forms`.
pub mod Widths
