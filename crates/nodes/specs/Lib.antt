pub mod Places
pub mod Nodes
pub mod Finds
pub mod Headers
