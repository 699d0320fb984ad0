pub mod Greedy
mod NextLemmas
mod RestLemmas
pub mod Searching
pub mod Waking
