-- The image of a mesh: its bytes, and what bytes stand for.
pub mod Codec
pub mod Keyed
pub mod Image
pub mod Fits
pub mod Reading
pub mod Laws
pub mod Held
