pub mod Aboves
pub mod Hand
pub mod Lengths
pub mod Pooled
pub mod BoxRows
pub mod Exchanged
