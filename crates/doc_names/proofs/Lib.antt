pub mod NameLists
pub mod OwnerFacts
pub mod OwnerLoop
