pub mod Seal
pub mod Laws
pub mod RoundTrip
