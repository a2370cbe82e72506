pub mod Cbc
pub mod Steps
pub mod Chain
pub mod Laws
pub mod Aes
pub mod Lengths
pub mod Ways
