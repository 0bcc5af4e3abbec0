-- The statements of `distinct`.
pub mod Listings
