pub mod Split
pub mod Owned
