pub mod Deletes
pub mod Merges
