pub mod Levels
pub mod Sums
pub mod Weights
