pub mod Answered
pub mod Judged
pub mod Lists
pub mod Meaning
pub mod Words
