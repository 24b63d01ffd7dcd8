pub mod FirstRun
pub mod FirstSession
pub mod Reasons
pub mod Scripts
pub mod Journals
pub mod Caches
pub mod Transactions
pub mod Licences
pub mod Draws
pub mod Commands
mod examples
