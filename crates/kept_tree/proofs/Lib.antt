pub mod Agreeing
pub mod Owners
pub mod Dropped
