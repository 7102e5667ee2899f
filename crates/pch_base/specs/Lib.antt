pub mod BitLists
pub mod BitWords
pub mod LitCodes
pub mod Lits
