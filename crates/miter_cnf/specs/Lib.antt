pub mod Numbered
pub mod Circuits
pub mod Tables
pub mod Writing
