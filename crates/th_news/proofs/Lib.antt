pub mod Waiting
pub mod WatchWaiting
