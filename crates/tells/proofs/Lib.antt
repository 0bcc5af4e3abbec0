-- The laws of `tells`.
pub mod Tells
pub mod States
pub mod Judges
pub mod Numbers
pub mod Admissions
