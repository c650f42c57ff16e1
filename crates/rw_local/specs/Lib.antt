pub mod Fuse
pub mod Fusion
pub mod Hoist
pub mod HoistCode
pub mod Hoisting
