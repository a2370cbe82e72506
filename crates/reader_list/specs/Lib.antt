pub mod List
pub mod Laws
