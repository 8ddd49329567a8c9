pub mod ShapeLimits
pub mod Ends
pub mod OnAxes
pub mod Halves
pub mod Sides
