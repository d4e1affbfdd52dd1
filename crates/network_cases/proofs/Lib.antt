pub mod SlopesAre
pub mod InRange
pub mod TestTrees
