-- The laws of `verdicts`.

pub mod Lines
