pub mod ListSums
pub mod PlaceLemmas
pub mod ShiftLemmas
pub mod CloseLemmas
pub mod RegionLemmas
