pub mod Known
pub mod SampleLine
pub mod SampleLines
pub mod SampleReports
pub mod Estimators
pub mod Held
pub mod RefusalLine
