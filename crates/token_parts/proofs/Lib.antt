pub mod Words
pub mod Strings
pub mod Cut
