pub mod MarkLemmas
pub mod RunningLemmas
pub mod GrowingLemmas
pub mod PlaceLemmas
pub mod LeafLemmas
