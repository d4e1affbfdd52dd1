pub mod Numbers
pub mod Words
pub mod Lines
pub mod Cuts
pub mod Names
pub mod Items
