pub mod EstimatorFacts
pub mod SampleFacts
pub mod HeldFacts
