pub mod Laws
pub mod RoundTrip
pub mod Converse
pub mod Writes
pub mod Tests
pub mod Cases
