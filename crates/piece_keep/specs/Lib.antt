pub mod Fed
pub mod Found
pub mod Fronts
pub mod Mark
pub mod Unseen
