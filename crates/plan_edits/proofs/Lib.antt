pub mod Judging
pub mod KindLoops
pub mod Lookups
pub mod MeaningSame
pub mod Surgery
