pub mod Above
pub mod Judging
