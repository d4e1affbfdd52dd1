pub mod CutFacts
pub mod NumberFacts
pub mod WordFacts
pub mod LineFacts
pub mod NameFacts
pub mod ItemFacts
