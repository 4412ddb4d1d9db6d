pub mod Quota
pub mod Laws
