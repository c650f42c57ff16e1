pub mod Contents
pub mod Following
pub mod Joined
pub mod Kept
pub mod Laws
pub mod Needs
pub mod Steps
pub mod Takes
