pub mod Causes
pub mod Entries
pub mod Numbers
pub mod Turns
pub mod Walked
