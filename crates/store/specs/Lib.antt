pub mod Faults
pub mod Meaning
pub mod Calls
pub mod Events
pub mod Layers
pub mod Laws
