pub mod BadLine
pub mod Drafts
pub mod Lines
pub mod ReportParts
pub mod ShortNames
pub mod Tellable
pub mod Told
pub mod WorkloadScript
