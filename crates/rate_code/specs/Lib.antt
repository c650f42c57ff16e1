pub mod Cause
pub mod Entries
pub mod Overlaps
pub mod Rate
pub mod Walked
