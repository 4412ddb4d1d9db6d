pub mod LaidCalls
pub mod LentCalls
