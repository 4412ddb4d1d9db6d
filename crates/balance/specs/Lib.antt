pub mod Limits
pub mod Ways
pub mod Cuts
pub mod Marks
pub mod Updates
