pub mod Begins
pub mod Grows
