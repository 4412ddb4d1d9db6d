pub mod Digits
pub mod Counted
