pub mod Rounds
pub mod Held
pub mod Forced
pub mod Left
pub mod Upstream
pub mod Lifted
