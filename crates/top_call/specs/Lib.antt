pub mod Runs
pub mod RunLine
pub mod TopCall
pub mod Laws
pub mod Statuses
