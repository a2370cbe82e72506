pub mod Final
pub mod Told
pub mod Parts
pub mod Laws
