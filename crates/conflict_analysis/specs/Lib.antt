pub mod Analyses
pub mod Walks
