pub mod WordLemmas
pub mod TokenByToken
