pub mod Blocks
pub mod Decided
pub mod Fetches
