pub mod NameList
pub mod NameTexts
pub mod Owners
