pub mod Initial
pub mod Told
