pub mod Holds
pub mod Open
pub mod Steps
pub mod Created
pub mod Updated
pub mod Reported
pub mod Laws
