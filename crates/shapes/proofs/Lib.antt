-- What is proved of `shapes`.
pub mod Looks
