pub mod Joined
pub mod Printed
pub mod Numbered
pub mod Reported
pub mod Views
pub mod Refining
