pub mod One
pub mod Lined
pub mod Runs
pub mod Pages
