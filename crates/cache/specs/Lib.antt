pub mod Lines
pub mod Lent
pub mod Cache
pub mod Steps
pub mod Laws
