pub mod Word
pub mod Laws
pub mod Rows
pub mod Mixing
pub mod Library
