pub mod RunValid
pub mod RunLaws
