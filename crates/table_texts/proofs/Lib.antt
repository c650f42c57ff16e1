pub mod OneSplit
pub mod Splits
