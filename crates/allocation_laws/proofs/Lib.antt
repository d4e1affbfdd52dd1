pub mod Cases
pub mod Demands
pub mod Verdicts
pub mod HeldBack
pub mod Allocations
