pub mod Assignments
pub mod Trails
