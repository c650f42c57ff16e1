pub mod Exact
pub mod Parts
pub mod Reading
pub mod Seven
pub mod Statements
