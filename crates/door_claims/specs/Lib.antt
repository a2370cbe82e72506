pub mod Door
pub mod Parts
pub mod Bits
pub mod Characters
pub mod Digits
pub mod Wiegand
pub mod Uuid
pub mod DoorHolds
