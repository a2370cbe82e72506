pub mod Parts
pub mod Kept
pub mod Promise
pub mod Opens
