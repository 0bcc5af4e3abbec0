-- The definitions of `dispatch`.
pub mod First
