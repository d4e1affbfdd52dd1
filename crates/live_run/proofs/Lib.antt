pub mod Counts
pub mod Giving
pub mod Conversing
pub mod LinesBehind
pub mod Pieces
pub mod Steps
pub mod Fronts
pub mod Ends
