pub mod Endings
pub mod Progresses
pub mod Sites
pub mod SnapshotStates
pub mod Values
pub mod Writes
