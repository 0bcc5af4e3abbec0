-- The laws of `encoder`.
pub mod Wells
pub mod Back
pub mod Forth
pub mod Trips
