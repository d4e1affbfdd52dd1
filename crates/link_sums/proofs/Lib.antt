pub mod Rows
pub mod Totals
pub mod MovedLoads
pub mod Changes
pub mod Opened
pub mod Over
