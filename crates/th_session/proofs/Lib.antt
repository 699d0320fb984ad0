pub mod HoldLemmas
pub mod Playing
pub mod Runs
pub mod Order
mod Rooms
mod Replying
mod Kept
pub mod Live
pub mod Living
mod Telling
pub mod Endings
mod Letting
mod Running
mod Unkept
mod Turns
mod RowTaken
