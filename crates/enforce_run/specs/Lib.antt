pub mod EventLines
pub mod RefusalLine
pub mod Playing
pub mod EnforceText
pub mod Lawful
