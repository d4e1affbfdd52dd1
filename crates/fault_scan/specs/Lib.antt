pub mod Kinds
pub mod Tables
pub mod Seen
pub mod Faults
