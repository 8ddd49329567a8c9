pub mod Format
pub mod Held
pub mod Images
pub mod Listed
pub mod ListedLaws
pub mod Newest
pub mod Stages
pub mod Steps
