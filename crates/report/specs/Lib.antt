-- The definitions of `report`.
pub mod Report
