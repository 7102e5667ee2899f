pub mod ApartLemmas
pub mod TruthLemmas
