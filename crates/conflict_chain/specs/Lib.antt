pub mod Conflicts
pub mod Kept
