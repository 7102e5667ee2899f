pub mod PlaceLemmas
pub mod PairingLemmas
pub mod AlignLemmas
pub mod NetLemmas
pub mod ReorderLemmas
pub mod NetworkLemmas
pub mod SpecificationLemmas
