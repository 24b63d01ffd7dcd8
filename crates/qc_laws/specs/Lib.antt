pub mod sizes
pub mod fits
pub mod history
pub mod runs
