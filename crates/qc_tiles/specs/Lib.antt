pub mod Tiles
pub mod Kept
pub mod Cells
pub mod Sizes
pub mod Pieces
pub mod Settled
pub mod Ready
pub mod Crowded
