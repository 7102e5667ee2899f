pub mod Mapped
pub mod Outputs
pub mod Columns
pub mod Tables
pub mod Needed
pub mod Gates
pub mod NodeCells
pub mod Reference
