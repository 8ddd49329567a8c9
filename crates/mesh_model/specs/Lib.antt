pub mod Geometry
pub mod Tree
pub mod Fields
pub mod Language
pub mod Run
pub mod Images
