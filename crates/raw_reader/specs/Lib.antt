pub mod Source
pub mod Takes
pub mod Slots
pub mod Walks
pub mod Pieces
pub mod Joined
pub mod Stretches
pub mod Runs
