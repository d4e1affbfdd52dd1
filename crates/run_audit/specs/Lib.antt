pub mod Words
pub mod Forms
pub mod History
pub mod Walk
pub mod Verdict
pub mod Checks
pub mod AuditText
