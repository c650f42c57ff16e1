pub mod Joined
pub mod Named
pub mod Numbering
pub mod Numbers
pub mod Unique
