pub mod Functions
pub mod Building
pub mod TreeParts
pub mod Childless
