pub mod Work
pub mod Blocks
