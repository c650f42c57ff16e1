pub mod Lists
pub mod Texts
pub mod Trees
pub mod Units
