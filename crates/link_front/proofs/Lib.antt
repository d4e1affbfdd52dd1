pub mod Walks
mod Listing
pub mod Moving
pub mod GroupMoves
