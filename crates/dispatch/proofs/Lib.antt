-- The laws of `dispatch`.
pub mod First
