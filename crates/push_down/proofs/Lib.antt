pub mod Agreement
pub mod Handed
