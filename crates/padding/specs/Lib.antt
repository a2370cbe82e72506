pub mod Method2
pub mod Laws
