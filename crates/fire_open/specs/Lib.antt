pub mod First
pub mod Fresh
pub mod Homes
pub mod Links
pub mod Rings
pub mod Settling
pub mod Sources
pub mod TaskCores
