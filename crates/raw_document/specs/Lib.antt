pub mod Words
pub mod Reading
pub mod Shape
pub mod Raw
pub mod Forms
pub mod Json
