pub mod Equal
pub mod Changing
pub mod Followed
