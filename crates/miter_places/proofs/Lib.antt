pub mod JoinedLemmas
pub mod SizeLemmas
pub mod NumberLaws
