pub mod Buildings
pub mod ChildlessFacts
