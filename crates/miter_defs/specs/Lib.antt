pub mod Equality
pub mod Numberings
pub mod Miters
