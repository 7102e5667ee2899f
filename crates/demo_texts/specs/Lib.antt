pub mod Names
pub mod Signals
pub mod Functions
pub mod Designs
pub mod Texts
