pub mod PlanFacts
pub mod DocumentFacts
pub mod GatheringFacts
pub mod LastFacts
