pub mod Shut
pub mod OneGroup
