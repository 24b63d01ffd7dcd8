mod Directory
pub mod Entries
