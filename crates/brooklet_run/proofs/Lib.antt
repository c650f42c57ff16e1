pub mod Adding
pub mod FitLemmas
