pub mod PartReads
pub mod TableReads
pub mod RangeLemmas
pub mod PinLemmas
pub mod ColumnLemmas
