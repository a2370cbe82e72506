pub mod Conversion
pub mod Told
pub mod Answers
