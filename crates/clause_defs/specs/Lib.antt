pub mod Literals
pub mod Clauses
pub mod Formulas
pub mod Resolution
pub mod Traces
pub mod Compaction
pub mod TraceClauses
pub mod Verdicts
