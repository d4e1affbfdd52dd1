pub mod ChangeFacts
pub mod LawFacts
pub mod RowFacts
pub mod ChangedFacts
pub mod StateFacts
