pub mod ClosedRun
pub mod Laws
pub mod FirstFault
pub mod DocumentRun
pub mod DocumentLaws
