pub mod Fits
pub mod Formed
pub mod Kern
pub mod Limits
pub mod Shape
pub mod Types
