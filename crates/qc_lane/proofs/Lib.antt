pub mod Ahead
pub mod BitSteps
pub mod Extremes
pub mod Counts
pub mod Words
