pub mod Told
pub mod Answers
pub mod RowPackets
pub mod Sound
pub mod Ends
pub mod Statements
pub mod Forms
pub mod Selects
