pub mod Whole
pub mod Steps
pub mod Runs
pub mod Settling
