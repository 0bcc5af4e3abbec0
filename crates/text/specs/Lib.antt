-- The definitions of `text`.
pub mod Text
pub mod Put
pub mod Pen
