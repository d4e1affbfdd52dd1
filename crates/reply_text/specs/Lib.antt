pub mod CheckText
pub mod BulkText
pub mod LevelsText
