pub mod EventFacts
pub mod Texts
pub mod Owners
pub mod Plays
pub mod Lawful
