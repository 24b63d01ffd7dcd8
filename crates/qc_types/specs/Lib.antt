pub mod formers
pub mod Feed
pub mod Streams
pub mod Answers
pub mod Blocks
