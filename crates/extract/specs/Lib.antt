pub mod CellLists
pub mod Kept
pub mod Walks
