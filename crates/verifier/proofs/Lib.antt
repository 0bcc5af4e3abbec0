-- What is proved of `verifier`.

pub mod Loops
pub mod Verdicts
pub mod Numbers
