pub mod Wiegand
pub mod Laws
