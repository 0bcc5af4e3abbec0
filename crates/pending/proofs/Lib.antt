-- What is proved of `pending`.
pub mod Words
