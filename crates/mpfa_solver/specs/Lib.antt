pub mod Search
pub mod Stops
