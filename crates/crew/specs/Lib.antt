pub mod Reporters
pub mod Allocators
pub mod Shown
