pub mod Faultless
pub mod MapLoops
pub mod Misused
pub mod OverLemmas
pub mod PlacedFaults
pub mod Remains
