pub mod Lines
pub mod EdgeSums
pub mod EdgeArrays
pub mod Groups
pub mod Laws
