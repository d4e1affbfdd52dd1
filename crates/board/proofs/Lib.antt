pub mod Sending
pub mod Totals
pub mod Posting
pub mod CorePosts
