pub mod Judging
pub mod Last
pub mod Named
pub mod Trees
