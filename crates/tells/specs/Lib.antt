-- The definitions of `tells`.
pub mod Told
pub mod Numbers
pub mod Admissions
