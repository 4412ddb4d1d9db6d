pub mod Child
pub mod Feet
pub mod Frames
pub mod Halving
pub mod Starts
pub mod Steps
pub mod Wholes
