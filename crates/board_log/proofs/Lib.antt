pub mod Prefixes
pub mod Adding
pub mod Comparing
pub mod Placing
pub mod Rolling
