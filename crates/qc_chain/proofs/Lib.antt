pub mod Words
pub mod Views
pub mod Calls
pub mod Releases
pub mod Listed
pub mod BlockSteps
pub mod FreeNames
pub mod Stores
mod examples
pub mod Counting
pub mod FiledSteps
pub mod Linking
pub mod ListWalks
