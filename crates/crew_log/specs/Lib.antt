pub mod Scripts
pub mod Lines
pub mod LegalCrewLog
