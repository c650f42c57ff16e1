pub mod Entries
pub mod Kept
pub mod Keyed
pub mod Laws
pub mod Pieces
pub mod Ranks
pub mod Tables
