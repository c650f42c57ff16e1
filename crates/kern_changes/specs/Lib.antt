pub mod Counted
pub mod Keyed
pub mod Laws
pub mod Needs
pub mod Owed
