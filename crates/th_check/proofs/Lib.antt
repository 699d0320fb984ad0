pub mod Running
pub mod Turning
pub mod Holding
mod Deciding
mod Telling
mod Tracing
mod PrintedLines
mod PrintedEntries
mod PrintedBroadcast
mod PrintedWatch
mod Handing
mod Walking
mod Adding
mod OneNext
mod NextPart
mod Openings
