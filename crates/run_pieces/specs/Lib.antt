pub mod Driver
pub mod Grown
pub mod Ran
pub mod Refused
pub mod Tool
pub mod Whole
