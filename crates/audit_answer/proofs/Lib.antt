pub mod Audits
pub mod KnownTables
