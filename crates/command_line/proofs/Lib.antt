pub mod Cut
pub mod ReadOn
pub mod Unasked
