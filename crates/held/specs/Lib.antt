pub mod Held
pub mod Roots
pub mod Exchange
pub mod Laws
