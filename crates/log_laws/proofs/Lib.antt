pub mod ChainGrowth
pub mod LogLemmas
pub mod TraceOfLemmas
pub mod LogTraces
