pub mod Settled
pub mod Selects
