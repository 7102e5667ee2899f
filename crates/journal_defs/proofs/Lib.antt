pub mod JournalLemmas
pub mod LegalityLemmas
