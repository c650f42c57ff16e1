pub mod Classes
pub mod Cut
pub mod Laws
pub mod Lexis
pub mod Pieces
pub mod Spaced
pub mod Symbols
pub mod Tok
