pub mod Jumps
pub mod FaceArrays
pub mod Work
pub mod Sums
pub mod Laws
