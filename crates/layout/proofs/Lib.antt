-- The laws of `layout`.
pub mod Lists
pub mod Puts
