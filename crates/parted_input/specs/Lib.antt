pub mod Parted
pub mod Lengths
