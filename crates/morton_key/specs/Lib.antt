pub mod Bits
pub mod Keyed
pub mod Laws
