pub mod Ended
pub mod Lists
