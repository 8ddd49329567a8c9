pub mod Flowing
pub mod Settling
pub mod Stepping
pub mod Circulations
pub mod Forcing
pub mod Inducting
