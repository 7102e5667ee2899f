pub mod SettlingLemmas
pub mod AssignmentLemmas
