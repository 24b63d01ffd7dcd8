pub mod Maps
pub mod Stays
pub mod Given
pub mod Columns
pub mod Tables
mod Inserts
mod Updates
mod Creates
mod Within
pub mod Changes
pub mod RowChanges
pub mod Written
pub mod Journals
pub mod Kept
pub mod Open
pub mod Full
pub mod Machines
mod Examples
