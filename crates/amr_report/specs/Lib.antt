pub mod Printing
pub mod Nodes
pub mod Arrays
pub mod Values
