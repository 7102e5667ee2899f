pub mod Compacted
pub mod Delivered
pub mod Judging
pub mod Outcomes
pub mod Parts
