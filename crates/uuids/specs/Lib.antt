pub mod Uuid
pub mod Groups
pub mod Numbers
