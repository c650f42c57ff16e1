pub mod Cuts
pub mod Filtered
pub mod Fronts
pub mod Given
pub mod JoinLaws
pub mod Lengths
pub mod Passed
