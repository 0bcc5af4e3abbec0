-- The definitions of `encoder`.
pub mod Encode
