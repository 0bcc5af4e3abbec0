-- What is proved of `safety`.
pub mod Foresees
pub mod Safety
