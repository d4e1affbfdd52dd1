pub mod Refused
pub mod SolveReply
pub mod SolveCall
