pub mod Talk
pub mod Streams
