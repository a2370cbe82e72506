pub mod Diversification
pub mod Laws
