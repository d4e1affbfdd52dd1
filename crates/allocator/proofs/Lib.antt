pub mod After
pub mod Pieces
pub mod Lawful
pub mod Told
