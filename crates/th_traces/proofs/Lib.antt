mod Coming
pub mod Entries
pub mod Fronts
pub mod BroadcastSpelling
pub mod WatchSpelling
pub mod Further
pub mod Begun
pub mod Telling
pub mod BroadcastAgain
pub mod WatchAgain
pub mod Few
pub mod Pieces
pub mod BroadcastFound
pub mod WatchFound
pub mod PicturesFound
