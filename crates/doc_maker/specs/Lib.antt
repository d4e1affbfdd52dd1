pub mod Layout
pub mod Made
pub mod Accepting
pub mod Writing
