pub mod Parts
pub mod Block
pub mod Held
pub mod Answered
pub mod Opens
