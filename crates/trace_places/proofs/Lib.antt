pub mod MoveLemmas
pub mod OtherLemmas
pub mod PlaceLemmas
pub mod PushLemmas
