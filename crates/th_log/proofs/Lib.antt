pub mod Grows
pub mod Walks
pub mod Diaries
pub mod Auditing
pub mod Told
