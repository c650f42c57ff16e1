pub mod Decimals
pub mod Folders
pub mod JobInputs
pub mod Names
