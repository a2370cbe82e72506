pub mod Made
pub mod Laws
