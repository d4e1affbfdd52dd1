pub mod TreeFacts
pub mod NodeFacts
pub mod TooManyFacts
pub mod PassFacts
