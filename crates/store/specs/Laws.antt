pub mod Changes
pub mod Counts
pub mod Layers
