pub mod BitLemmas
pub mod SourceLemmas
pub mod FunctionLemmas
pub mod PassingLemmas
pub mod SignalLemmas
pub mod HolderLemmas
