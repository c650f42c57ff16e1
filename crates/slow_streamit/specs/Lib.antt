pub mod Firing
pub mod Works
