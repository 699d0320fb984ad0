mod Telling
mod Passing
mod Weaving
mod HubRuns
mod LoopLemmas
mod Scheduling
