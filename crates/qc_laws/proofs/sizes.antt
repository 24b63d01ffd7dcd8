pub mod Tokens
pub mod Readers
pub mod Parsed
pub mod Each
pub mod Decimals
pub mod Payloads
pub mod Answered
pub mod Tables
pub mod Expressions
pub mod Selects
pub mod Applied
pub mod Changes
mod Examples
pub mod Whole
