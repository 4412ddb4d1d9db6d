pub mod Lists
pub mod Tree
pub mod Runs
pub mod Counts
pub mod Queries
pub mod Laws
pub mod Letters
