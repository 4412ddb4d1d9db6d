pub mod Frames
pub mod Opened
pub mod Laws
