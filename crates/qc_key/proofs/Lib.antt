pub mod FlagBytes
pub mod OneSpelling
pub mod ReadKeys
mod examples
