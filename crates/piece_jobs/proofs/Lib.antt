pub mod Follows
pub mod Keeps
pub mod Loops
pub mod Merges
pub mod Progressed
pub mod Tells
pub mod Whys
