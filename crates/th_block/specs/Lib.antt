pub mod Cuts
pub mod Few
pub mod Handles
pub mod Locked
pub mod Pairs
pub mod Returned
pub mod Rows
pub mod Together
