pub mod Command
pub mod Lists
pub mod After
pub mod Unseen
pub mod Demand3
pub mod Tried
pub mod KeyChange
pub mod Ways
