pub mod Blocks
pub mod Filters
pub mod Rounds
pub mod Streams
