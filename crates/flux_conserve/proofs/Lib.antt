pub mod FacePlaces
pub mod Fields
pub mod Worlds
pub mod Taking
pub mod Puts
