pub mod Legal
pub mod Answering
pub mod Showing
