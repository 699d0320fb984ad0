pub mod Numbered
pub mod Slots
pub mod Lends
