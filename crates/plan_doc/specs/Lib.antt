pub mod Owners
pub mod Accepted
pub mod Conditions
pub mod Last
pub mod Plans
