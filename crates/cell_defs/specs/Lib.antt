pub mod Cells
pub mod Sources
pub mod Cones
pub mod Evaluation
