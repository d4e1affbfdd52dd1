pub mod Tasks
pub mod Growing
pub mod Tables
pub mod Order
pub mod Printing
pub mod Laws
