pub mod ByLink
pub mod Front
pub mod Moves
