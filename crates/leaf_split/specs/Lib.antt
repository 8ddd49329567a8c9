pub mod FaceKeeps
pub mod EdgeKeeps
pub mod Tried
