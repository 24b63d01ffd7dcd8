pub mod Sessions
pub mod Meetings
pub mod NoSteps
