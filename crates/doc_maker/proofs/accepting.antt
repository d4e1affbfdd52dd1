mod Readings
mod Layouts
mod Walks
mod Names
mod Ranges
mod NameLists
mod Limits
mod Places
mod Numbering
mod Parts
mod Plans
mod Values
mod Printed
mod Texts
pub mod Accepted
