-- Coordinates, blocks and what touches: nothing here knows of leaves or of numbers.
pub mod Coordinates
pub mod Outside
pub mod Blocks
pub mod Touch
pub mod Limits
pub mod Canonical
pub mod Places
