pub mod Endings
pub mod Lengths
