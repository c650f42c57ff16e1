pub mod Cuts
pub mod Faulty
pub mod Marks
pub mod Fronts
pub mod Windows
pub mod Scan
pub mod Sizes
