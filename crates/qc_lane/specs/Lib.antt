pub mod Lanes
pub mod SetBits
