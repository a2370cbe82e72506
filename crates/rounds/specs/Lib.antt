pub mod State
pub mod Cipher
pub mod InvCipher
pub mod Blocks
pub mod Undo
pub mod Columns
pub mod Meaning
