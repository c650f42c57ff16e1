pub mod Added
pub mod Faults
pub mod Laws
pub mod Merging
pub mod Steps
