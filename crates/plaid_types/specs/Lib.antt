pub mod Keys
pub mod KeyLaws
pub mod Tries
pub mod TriesLaws
pub mod Cards
