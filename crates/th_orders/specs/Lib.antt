pub mod Nexts
pub mod Orders
pub mod Rests
pub mod Search
pub mod Waiting
