pub mod Logs
pub mod Deriving
pub mod LogTraces
