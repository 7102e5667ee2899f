pub mod Lines
pub mod Index
pub mod Reading
pub mod Whole
