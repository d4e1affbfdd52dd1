mod Together
pub mod Behind
mod Tiered
