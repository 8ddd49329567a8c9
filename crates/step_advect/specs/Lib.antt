pub mod Applied
pub mod Flux
pub mod Fluxed
pub mod Lifts
pub mod Settled
