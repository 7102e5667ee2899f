pub mod Routings
pub mod ReadBack
