pub mod RefusalLines
