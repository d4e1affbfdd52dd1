pub mod Digits
pub mod Loops
pub mod Named
pub mod Reading
pub mod Tokens
