-- The definitions of `packer`.
pub mod Write
