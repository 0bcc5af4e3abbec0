-- The definitions of `forms`.
pub mod Form
