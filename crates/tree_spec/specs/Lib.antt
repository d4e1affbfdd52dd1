pub mod Tasks
pub mod States
pub mod Asked
pub mod Numbering
pub mod Trees
pub mod Walk
pub mod Childless
