-- The theorems of `guarantee`.
pub mod Verdicts
pub mod Faults
pub mod Demands
pub mod Inside
pub mod Marked
pub mod Copies
pub mod Shapes
pub mod Tags
pub mod Downloads
