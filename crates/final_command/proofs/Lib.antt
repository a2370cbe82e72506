pub mod Buffers
pub mod Front
pub mod Slots
pub mod Within
pub mod Keys
pub mod Counts
pub mod Assembly
pub mod Verdict
