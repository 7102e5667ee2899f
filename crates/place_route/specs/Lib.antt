pub mod Refusals
pub mod Routings
