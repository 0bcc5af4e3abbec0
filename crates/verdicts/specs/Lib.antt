-- The definitions of `verdicts`.
pub mod Line
