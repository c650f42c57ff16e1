pub mod ActTrees
pub mod Calcs
pub mod Lists
pub mod Rows
pub mod Running
pub mod Shared
pub mod Texts
