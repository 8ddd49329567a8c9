pub mod Sides
pub mod Splitting
pub mod EdgeSplitting
