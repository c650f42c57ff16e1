pub mod Fronts
pub mod Printable
pub mod Spoken
