-- The definitions of `glance`.
pub mod Firsts
