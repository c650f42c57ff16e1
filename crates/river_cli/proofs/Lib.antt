pub mod Does
pub mod Free
pub mod Live
pub mod Points
pub mod Told
pub mod Worked
