pub mod Loops
pub mod Lists
pub mod Steps
pub mod Histories
pub mod Runs
