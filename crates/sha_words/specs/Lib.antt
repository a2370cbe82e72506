pub mod Words
pub mod Functions
pub mod WordLaws
