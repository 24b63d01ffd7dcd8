pub mod Seen
pub mod Fronts
pub mod Pieces
pub mod Heads
pub mod Ahead
pub mod Laws
