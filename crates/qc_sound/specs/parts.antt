pub mod Journal
pub mod Directory
pub mod Memory
pub mod Contents
pub mod Tasks
