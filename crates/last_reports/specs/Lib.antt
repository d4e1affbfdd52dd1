pub mod Compaction
pub mod Snapshot
