pub mod Numbered
pub mod Bits
pub mod Kinds
pub mod Geometries
pub mod Layout
pub mod Configurations
pub mod Wirings
pub mod Spelling
