pub mod Inserts
pub mod Surveys
