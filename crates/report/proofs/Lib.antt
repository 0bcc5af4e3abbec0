-- The laws of `report`.
pub mod Entries
pub mod Reports
pub mod Writes
pub mod Numbers
pub mod Sample
