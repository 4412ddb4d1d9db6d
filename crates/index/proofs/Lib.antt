pub mod Queries
pub mod Resumes
pub mod Creates
pub mod Updates
pub mod Granted
