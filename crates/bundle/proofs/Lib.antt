pub mod NumberLemmas
pub mod ReadLemmas
pub mod SpellLemmas
pub mod AnswerLemmas
