pub mod Intervals
pub mod Leaves
pub mod Ranks
pub mod Reporting
pub mod Sizes
pub mod Writing
