pub mod Texts
pub mod Tables
pub mod Counts
pub mod Law
