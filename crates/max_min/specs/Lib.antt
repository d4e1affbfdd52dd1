pub mod MaxMin
pub mod Laws
