pub mod PartsFacts
