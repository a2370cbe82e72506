pub mod Aes
pub mod RoundTrip
pub mod Rows
pub mod Middle
