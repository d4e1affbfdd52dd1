pub mod Follow
pub mod Conversation
pub mod Answers
pub mod Front
pub mod Endings
pub mod Following
