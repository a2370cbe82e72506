pub mod WiegandParts
pub mod Laws
