pub mod Last
pub mod Alike
pub mod Putting
pub mod Snapshots
