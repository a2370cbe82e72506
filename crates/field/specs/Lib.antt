pub mod Field
pub mod Matrix
pub mod Linear
