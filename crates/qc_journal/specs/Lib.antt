pub mod Counting
pub mod Indexed
pub mod Kept
pub mod Room
