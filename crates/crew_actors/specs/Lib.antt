pub mod Reporters
