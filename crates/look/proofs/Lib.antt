-- What is proved of `look`.
pub mod Numbers
pub mod Shallow
pub mod Wrongs
pub mod Answers
