-- The definitions of `verifier`.
pub mod Verify
