pub mod Version
pub mod Passing
