pub mod Frame
pub mod Declines
pub mod Told
pub mod Laws
pub mod Framed
