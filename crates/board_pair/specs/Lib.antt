pub mod Plan
pub mod Pair
pub mod Reading
pub mod CoreReads
pub mod Desk
