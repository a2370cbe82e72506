pub mod Bytes
pub mod Lists
pub mod Xor
pub mod Tests
pub mod Filled
pub mod Same
pub mod ByteLists
pub mod Writes
