pub mod Words
pub mod Sentences
pub mod Text
pub mod Does
pub mod Laws
