pub mod Begun
pub mod Faults
pub mod Grown
pub mod Laid
pub mod Printed
