-- The rows of `worked`, and the statement that they hold.
pub mod Row
pub mod Values
pub mod Memory
pub mod Flow
pub mod Faults
pub mod Walk
pub mod Instructions
pub mod States
pub mod Packs
pub mod Downloads
pub mod Worked
