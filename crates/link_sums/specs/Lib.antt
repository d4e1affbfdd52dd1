pub mod Sums
pub mod Held
