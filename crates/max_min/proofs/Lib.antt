pub mod Cases
pub mod Pushed
pub mod Stops
pub mod Last
pub mod MaxMin
pub mod Levels
