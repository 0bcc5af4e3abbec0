-- The definitions of `basis`.
pub mod Pick
pub mod Answer
pub mod Number
pub mod Room
pub mod Refusal
