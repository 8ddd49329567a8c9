-- What commands print, refuse and make of a mesh.
pub mod Texts
pub mod TreeText
pub mod Stops
pub mod StopTexts
pub mod Runs
