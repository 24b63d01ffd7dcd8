mod Parts
mod OneEntry
