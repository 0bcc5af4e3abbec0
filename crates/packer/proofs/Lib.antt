-- The laws of `packer`.
pub mod Lists
pub mod Puts
pub mod Writes
