pub mod Changes
pub mod TableChanges
pub mod Following
