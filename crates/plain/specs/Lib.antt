pub mod Plain
pub mod Resume
pub mod Laws
