pub mod Standing
pub mod Answers
pub mod Following
pub mod Laws
