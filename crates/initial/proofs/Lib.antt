pub mod Laws
pub mod Slots
pub mod Places
pub mod Writes
pub mod Replies
