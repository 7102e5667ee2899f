pub mod CellListLemmas
pub mod ConeLemmas
pub mod WalkLemmas
