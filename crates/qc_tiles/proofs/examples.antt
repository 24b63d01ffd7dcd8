mod Blocks
mod Region
