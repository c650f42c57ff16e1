pub mod Laws
pub mod Periods
pub mod Pieces
pub mod Texts
pub mod Walk
