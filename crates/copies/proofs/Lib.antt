pub mod Changes
pub mod Exits
pub mod Copies
pub mod Edits
