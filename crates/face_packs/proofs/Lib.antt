-- The laws of `face_packs`.
pub mod Entries
