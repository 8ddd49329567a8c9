pub mod Respacing
pub mod Interleaving
pub mod Placing
