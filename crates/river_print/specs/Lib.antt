pub mod Laws
pub mod Printable
pub mod Printed
pub mod Ranged
pub mod Styles
pub mod Writable
