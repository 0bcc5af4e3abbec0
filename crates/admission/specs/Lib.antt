-- The definitions of `admission`.
pub mod Verdicts
pub mod Numbers
pub mod Admission
pub mod Fit
