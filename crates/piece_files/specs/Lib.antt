pub mod Counts
pub mod Held
pub mod Inputs
pub mod Names
