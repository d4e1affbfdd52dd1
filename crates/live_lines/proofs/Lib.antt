pub mod CutterFacts
pub mod MeaningFacts
