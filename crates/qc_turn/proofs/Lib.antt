pub mod Tasks
pub mod RuleKept
pub mod Holders
pub mod Pieces
