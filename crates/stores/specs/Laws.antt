pub mod Clearing
pub mod Laid
pub mod Plans
pub mod Tables
