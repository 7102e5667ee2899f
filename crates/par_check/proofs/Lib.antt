pub mod PieceLemmas
pub mod ProgressLemmas
