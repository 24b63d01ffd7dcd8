pub mod Blocks
pub mod Directory
pub mod Indexed
pub mod Keys
pub mod Slots
pub mod Uses
