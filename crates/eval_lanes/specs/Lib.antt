pub mod Blocks
pub mod Places
pub mod Levels
pub mod Values
pub mod Counts
