pub mod Levels
pub mod NextStop
pub mod Limits
