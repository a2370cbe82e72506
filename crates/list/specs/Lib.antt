pub mod Ber
pub mod Laws
pub mod Encoding
pub mod Meaning
