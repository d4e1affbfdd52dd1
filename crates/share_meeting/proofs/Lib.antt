pub mod Meets
pub mod Halves
