pub mod FormLemmas
pub mod FoundLemmas
pub mod LimitLemmas
