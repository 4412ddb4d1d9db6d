pub mod Alls
pub mod Pairs
pub mod Floors
pub mod Cases
pub mod Steps
pub mod Lookups
