pub mod Geometry
pub mod Ranges
pub mod BitArrays
pub mod Wires
pub mod Evaluation
