pub mod Changes
pub mod Inserts
pub mod Lists
pub mod Parts
pub mod Placing
pub mod Removing
pub mod Targets
