pub mod KeyLength
pub mod KeyExpansion
pub mod Words
pub mod Schedule
pub mod WordLaws
pub mod Turns
pub mod Filling
pub mod Parts
