pub mod Visits
pub mod Lists
pub mod JsonReading
