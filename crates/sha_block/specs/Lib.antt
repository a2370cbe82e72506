pub mod Constants
pub mod Initial
pub mod Hash
