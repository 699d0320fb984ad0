pub mod News
pub mod WatchNews
