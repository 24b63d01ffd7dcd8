pub mod Functions
pub mod Verdict
