pub mod CqlCompiled
pub mod Files
pub mod LoadStands
pub mod ParamsCompiled
pub mod RiverCompiled
pub mod SawCompiled
pub mod Single
pub mod StreamitCompiled
