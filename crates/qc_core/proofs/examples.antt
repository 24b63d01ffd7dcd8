mod Regions
mod Commits
mod Blocks
