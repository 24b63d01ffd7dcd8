pub mod Loops
pub mod Depth
pub mod EachOnce
pub mod Congruence
pub mod Alike
pub mod Prefixes
pub mod Sound
pub mod SoundStatements
pub mod Gaps
pub mod Complete
pub mod CompleteStatements
mod examples
