pub mod History
pub mod Roll
pub mod Plan
pub mod Laws
