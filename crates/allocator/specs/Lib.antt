pub mod Frames
pub mod Allocators
pub mod FrameLaws
pub mod Laws
