pub mod Measures
pub mod Pieces
pub mod Contents
pub mod Numbers
pub mod Comments
pub mod Fronts
pub mod LexLoop
pub mod Spelling
pub mod Meanings
pub mod FirstWords
pub mod Places
pub mod NextTokens
mod examples
