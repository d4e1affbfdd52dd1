pub mod TierText
pub mod TierPart
