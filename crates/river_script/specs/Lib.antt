pub mod Grammar
pub mod Judged
pub mod Laws
pub mod Meaning
pub mod Reading
pub mod Script
pub mod Steps
pub mod Words
