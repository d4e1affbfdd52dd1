pub mod Reads
pub mod Readers
pub mod Gates
