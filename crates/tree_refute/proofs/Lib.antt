pub mod Differing
pub mod BranchLemmas
pub mod Halves
