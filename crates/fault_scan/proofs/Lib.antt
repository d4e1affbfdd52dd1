pub mod Keys
pub mod Slots
pub mod Lists
pub mod Forms
pub mod Told
pub mod Entries
pub mod Tokens
pub mod Documents
