pub mod Counts
mod WordFacts
mod Names
mod Dues
pub mod Takes
mod Pursues
mod Fits
mod Verdicts
mod AskedTotals
