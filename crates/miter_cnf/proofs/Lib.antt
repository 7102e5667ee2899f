pub mod WritingLemmas
pub mod RowLemmas
pub mod NumberLemmas
pub mod TableLemmas
pub mod OutputLemmas
pub mod FormulaLemmas
