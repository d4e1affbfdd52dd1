pub mod Limits
pub mod Ranges
pub mod Names
pub mod Numbers
pub mod NumbersView
pub mod Counts
pub mod InRange
pub mod Passed
