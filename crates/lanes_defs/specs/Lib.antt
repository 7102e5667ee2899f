pub mod Lanes
pub mod Ones
