pub mod Lines
pub mod Readers
pub mod Placing
pub mod Showing
