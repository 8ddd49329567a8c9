pub mod Keeps
pub mod SideLeaves
pub mod EdgeParts
pub mod EdgesHeld
pub mod EdgeViews
pub mod UniformEdges
