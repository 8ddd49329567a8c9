pub mod Blocks
pub mod Facing
pub mod Setting
pub mod EdgeSetting
