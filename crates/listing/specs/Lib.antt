-- The definitions of `listing`.
pub mod Listing
pub mod Walk
