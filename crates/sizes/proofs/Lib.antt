-- The laws of `sizes`.
pub mod Rooms
pub mod Instructions
pub mod Listings
pub mod Packs
pub mod Reports
pub mod Sizes
