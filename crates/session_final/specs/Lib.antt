pub mod SealFrame
pub mod Buffer
pub mod SealText
pub mod SealAccepted
pub mod Accepts
pub mod Reply
pub mod SealReply
pub mod Converse
