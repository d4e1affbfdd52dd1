pub mod Network
pub mod Faults
pub mod Held
