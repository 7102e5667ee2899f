pub mod KeptLemmas
pub mod TracePushes
