pub mod GrowLemmas
pub mod RowLemmas
pub mod ClauseNumbers
pub mod NodeLemmas
pub mod CellLemmas
pub mod OutputLemmas
pub mod InputLemmas
