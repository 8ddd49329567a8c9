pub mod Filling
pub mod Guarding
pub mod Near
pub mod Restricting
pub mod Strips
pub mod Trials
