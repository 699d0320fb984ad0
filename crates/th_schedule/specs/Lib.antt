pub mod Woven
pub mod Untold
pub mod Hub
pub mod Schedule
pub mod Strangers
