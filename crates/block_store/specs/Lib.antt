pub mod Above
pub mod Held
pub mod Lending
pub mod Making
pub mod Pools
pub mod PoolLends
pub mod Views
pub mod Regions
