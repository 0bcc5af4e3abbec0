-- The laws of `rules`.
pub mod Kept
pub mod Forth
pub mod Back
pub mod Inside
pub mod Takes
pub mod Trips
pub mod Finds
pub mod Refuses
pub mod Sample
