pub mod NearBlocks
pub mod LineNames
pub mod HalfEdges
pub mod LinePlaces
pub mod Readings
pub mod Worlds
pub mod Rounds
pub mod EdgePuts
