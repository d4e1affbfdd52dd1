pub mod Names
pub mod Faults
pub mod Builds
pub mod Networks
