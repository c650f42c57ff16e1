pub mod Blocks
pub mod Listing
pub mod Texts
pub mod Values
