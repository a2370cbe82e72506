pub mod Binary
pub mod Places
pub mod Laws
