pub mod Feeds
pub mod Finds
pub mod Fronts
pub mod MarkBytes
pub mod Places
pub mod Records
