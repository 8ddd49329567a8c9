pub mod Near
pub mod Regrids
pub mod Tried
pub mod AxisMoves
