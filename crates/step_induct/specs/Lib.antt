pub mod Circling
pub mod Forces
