-- The laws of `listing`.
pub mod Listings
