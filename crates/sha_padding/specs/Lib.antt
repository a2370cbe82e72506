pub mod Padding
pub mod Parsing
pub mod PaddingLaws
