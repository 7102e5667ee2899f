pub mod ClauseLemmas
pub mod CompactedLemmas
pub mod TraceLemmas
