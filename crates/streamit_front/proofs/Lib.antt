pub mod Accepting
pub mod Fronts
pub mod Nested
pub mod Printable
pub mod Readable
