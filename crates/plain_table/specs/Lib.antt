pub mod Lines
pub mod FirstOfLinks
pub mod Reported
pub mod Values
pub mod Tables
pub mod Scripts
