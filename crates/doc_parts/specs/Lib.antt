pub mod Links
pub mod TooMany
pub mod Tables
pub mod Document
pub mod Plans
pub mod Passing
pub mod Gathering
