pub mod Answer
pub mod Ways
