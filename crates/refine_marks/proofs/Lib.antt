pub mod Flagged
pub mod Sets
pub mod Valued
pub mod RefinedLevels
pub mod MergedLevels
pub mod Plans
