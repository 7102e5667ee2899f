pub mod JudgingLemmas
pub mod OnesLemmas
