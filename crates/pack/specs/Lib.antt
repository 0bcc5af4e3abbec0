-- The definitions of `pack`.
pub mod Contents
pub mod Read
pub mod Find
pub mod Lookup
pub mod Refusals
pub mod Format
