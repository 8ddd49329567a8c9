-- Grids, that is sets of leaves: kinds, order, validity, closure and growth.
pub mod Order
pub mod Closure
pub mod Reported
pub mod Kinds
pub mod ValidGrid
pub mod Regrown
pub mod Start
pub mod Forest
pub mod MarkedGrid
pub mod Growth
