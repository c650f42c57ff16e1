pub mod Added
pub mod Adding
pub mod Once
pub mod Records
pub mod Sections
