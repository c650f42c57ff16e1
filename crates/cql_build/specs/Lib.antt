pub mod Grown
pub mod Judged
pub mod Knowing
pub mod Marks
pub mod Planned
pub mod Views
