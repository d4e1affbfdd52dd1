pub mod Estimate
pub mod Estimator
