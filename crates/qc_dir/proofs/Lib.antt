pub mod Apart
pub mod DirCalls
pub mod DirSteps
pub mod EntrySteps
pub mod EntryTotals
pub mod Insertions
pub mod KeyCounts
pub mod Names
pub mod Places
pub mod Removals
pub mod Serials
pub mod SlotCalls
pub mod SlotSteps
pub mod Totals
pub mod UseSteps
mod examples
