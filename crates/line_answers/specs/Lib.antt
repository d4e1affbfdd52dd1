pub mod Replies
pub mod MadeLines
pub mod EstimateReply
pub mod TiersReply
pub mod EnforceReply
