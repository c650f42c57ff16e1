pub mod Appends
pub mod Counts
pub mod Starts
pub mod Comes
pub mod Passes
pub mod Told
pub mod Turns
