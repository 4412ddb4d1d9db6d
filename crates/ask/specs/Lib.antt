pub mod Leaf
pub mod Ranks
pub mod Reports
pub mod Writes
