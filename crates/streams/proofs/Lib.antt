-- The theorems of `streams`, and their laws.
pub mod Kept
pub mod Judging
pub mod Coming
pub mod Closing
pub mod Ending
pub mod Within
pub mod Alike
pub mod Streams
