pub mod SubBytes
pub mod InvSubBytes
pub mod Rule
