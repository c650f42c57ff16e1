pub mod ByPlan
pub mod Faults
pub mod Files
