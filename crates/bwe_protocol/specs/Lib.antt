pub mod Echo
pub mod Named
