pub mod Lines
pub mod Matches
pub mod Ranges
