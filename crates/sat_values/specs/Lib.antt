pub mod ClauseLists
pub mod CnfFormula
pub mod Copies
pub mod TraceArrays
