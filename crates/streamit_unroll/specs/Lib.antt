pub mod Filter
pub mod Lean
pub mod Numbers
pub mod Unrolling
pub mod View
