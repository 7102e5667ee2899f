pub mod FrontLemmas
pub mod LevelLemmas
pub mod KeepLemmas
