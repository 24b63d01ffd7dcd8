pub mod Runs
pub mod Seen
pub mod Answers
pub mod Fillings
pub mod Few
pub mod Named
