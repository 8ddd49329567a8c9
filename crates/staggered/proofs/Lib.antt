pub mod Blocks
pub mod Uniform
pub mod FacesFound
pub mod UniformSet
pub mod FaceSet
pub mod EdgeSet
