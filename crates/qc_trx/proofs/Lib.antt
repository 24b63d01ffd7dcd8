pub mod Aboves
pub mod Columns
pub mod Finishes
pub mod Index
pub mod Meets
pub mod Ordered
pub mod Stands
pub mod Walks
