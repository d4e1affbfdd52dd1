pub mod Seen
pub mod Children
