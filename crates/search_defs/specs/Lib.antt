pub mod Solving
pub mod Ends
