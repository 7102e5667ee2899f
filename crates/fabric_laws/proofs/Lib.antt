pub mod NumberedLemmas
pub mod LayoutLemmas
pub mod LimitLemmas
pub mod TableLemmas
pub mod PartLemmas
pub mod WiringLemmas
pub mod BitLemmas
pub mod ConfigAnswers
