pub mod LotLemmas
pub mod Looks
pub mod RowLemmas
