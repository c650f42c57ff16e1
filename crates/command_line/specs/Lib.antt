pub mod Commands
pub mod Limits
pub mod Phrases
pub mod Said
pub mod Sentences
pub mod Words
pub mod Unasked
