pub mod Lists
pub mod Seven
pub mod Texts
pub mod Units
pub mod Values
pub mod Words
