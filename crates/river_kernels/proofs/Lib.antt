pub mod Codes
pub mod EqualLemmas
pub mod FitsLaw
pub mod KernLemmas
pub mod Shared
pub mod TypeLemmas
pub mod WellFormed
