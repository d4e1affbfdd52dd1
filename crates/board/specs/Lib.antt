pub mod Plan
pub mod Reading
pub mod Reporting
pub mod Allocating
pub mod Refusals
pub mod Standing
pub mod Opening
pub mod CoreSteps
