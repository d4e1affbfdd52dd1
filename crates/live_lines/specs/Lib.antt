pub mod Known
pub mod Meaning
pub mod Cutting
pub mod Laws
