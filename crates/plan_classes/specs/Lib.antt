pub mod Classes
pub mod Lines
pub mod Numbered
pub mod Sets
pub mod Users
