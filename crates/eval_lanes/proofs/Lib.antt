pub mod LaneLemmas
pub mod LevelLemmas
pub mod PlaceLemmas
pub mod ValueLemmas
pub mod CountLemmas
