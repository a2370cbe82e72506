pub mod Hexadecimal
pub mod Laws
