pub mod Answer
pub mod Does
pub mod Free
pub mod Points
pub mod Text
